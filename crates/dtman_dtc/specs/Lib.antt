pub mod DtcOutput
