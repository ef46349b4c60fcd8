pub mod ByPidLaws
pub mod RecordLaws
pub mod BirthLaws
pub mod RenewedLaws
