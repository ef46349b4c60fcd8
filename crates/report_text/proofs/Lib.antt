mod Ttys
mod RootEnds
mod Told
mod Outcomes
mod OutcomeText
mod LoadText
mod EndCounts
