mod Fronts
mod Printed
mod Found
mod Worked
