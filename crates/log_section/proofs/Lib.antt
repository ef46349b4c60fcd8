mod Walks
mod Passing
mod Reaching
mod ReportForm
mod RunForm
mod LogForm
mod Whole
