pub mod Shadow
pub mod Unheard
pub mod PassedOver
pub mod Heard
pub mod OwnUnheard
