pub mod Rows
pub mod Cuts
pub mod LabelTables
pub mod SortedLabels
pub mod Signed
pub mod QuotedTexts
pub mod Reading
pub mod WordLines
pub mod Refusing
pub mod PartedTables
pub mod NumberedNames
pub mod CleanTexts
mod ParsedTexts
mod ParsedLines
