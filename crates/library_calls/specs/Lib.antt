-- What plain numbers mean: `Alone` of places, intervals and hand-outs, `Companions` of tariffs, texts and sheets.
pub mod Alone
pub mod Companions
