mod BlockLines
mod Blocks
pub mod Bounds
pub mod ElfBlocks
mod ElfMemory
mod Examples
mod Fields
mod FileRules
pub mod FileWords
mod FirstWords
mod Headed
mod ImagePlaces
mod Imaged
mod Keeping
mod LastLines
mod Leading
mod LineSteps
mod Lines
mod Printed
mod ReadBack
mod Reached
mod RefusalExamples
mod Refusing
mod Rooted
mod Rows
mod Sound
mod Sounding
mod Spelling
mod Standing
mod Stepping
mod Taking
mod Words
mod WordFields
mod WordLines
