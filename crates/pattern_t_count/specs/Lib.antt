-- `Calls`: the answer of `shortest` and the word that is handed back for it, after every run of the code's calls. `Scale`: the scale of a session's job. `Room`: where the words are not refused.
pub mod Calls
pub mod lemmas
