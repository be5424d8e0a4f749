pub mod DcReading
