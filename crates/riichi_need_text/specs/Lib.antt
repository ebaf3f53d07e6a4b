pub mod NeedTexts
