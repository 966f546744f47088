pub mod DateTexts
