pub mod Fronts
pub mod PlainTexts
pub mod ReportTexts
