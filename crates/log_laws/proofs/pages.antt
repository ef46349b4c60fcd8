pub mod OneEntry
pub mod InsnSizes
pub mod StepSizes
pub mod PagesStay
pub mod SizesStay
pub mod Keeping
pub mod Waiting
pub mod Leaving
pub mod MovedStated
pub mod CutThere
pub mod BornSums
pub mod BornLeft
pub mod StartPages
pub mod FetchedThere
pub mod NothingLeft
mod WorkedLeft
