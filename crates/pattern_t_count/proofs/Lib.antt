-- `Calls`: what `shortest` answers and the word that is handed back for it are, after every run of the code's calls.
pub mod Calls
