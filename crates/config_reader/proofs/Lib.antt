mod Fits
mod Plans
mod Kept
mod Lists
mod Unbroken
mod Sound
mod SoundPlans
mod Ruled
pub mod SoundMeaning
