pub mod BigDigits
