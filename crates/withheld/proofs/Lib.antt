mod DeedTotals
mod Since
mod OneRecord
mod Sums
mod Beginnings
mod NoLoss
mod WorkedLog
