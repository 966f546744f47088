pub mod AmountTexts
