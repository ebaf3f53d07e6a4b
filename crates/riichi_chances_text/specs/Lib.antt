pub mod FractionTexts
pub mod OddsTexts
pub mod PointTexts
