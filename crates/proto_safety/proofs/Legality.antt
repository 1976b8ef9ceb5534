-- Legal histories and legal reports.
pub mod ReleasesStep
pub mod ShownStep
pub mod WorldShown
pub mod WorldOrder
pub mod ReleasedLate
pub mod LegalNow
pub mod LegalRun
pub mod RunsAreLegal
pub mod RulesOneByOne
pub mod LinesTold
pub mod RunLines
pub mod ReportLegal
