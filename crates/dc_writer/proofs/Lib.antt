pub mod DcWriting
