-- What the functions of whole numbers say: the least number that passes a test, products and their sizes, and numbers rounded up.
pub mod Least
pub mod Products
pub mod Rounded
