pub mod PictureCases
pub mod RoundingCases
pub mod CurveCases
pub mod Centre
pub mod Components
pub mod PixelCases
pub mod SettingCases
pub mod CallCases
