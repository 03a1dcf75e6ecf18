pub mod BackLaws
pub mod Words
pub mod BankLaws
