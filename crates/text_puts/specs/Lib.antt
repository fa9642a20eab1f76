-- Texts put one after another (`Puts`), and some that several programs print (`Texts`).
pub mod Puts
pub mod Texts
