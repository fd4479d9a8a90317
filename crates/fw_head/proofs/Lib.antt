pub mod FreeIds
pub mod Sending
pub mod OwnClaims
pub mod Asking
pub mod Heard
pub mod LiveRows
pub mod SameRows
pub mod Offers
mod Swapped
pub mod Ended
pub mod Names
pub mod States
pub mod Endings
pub mod TakenOut
pub mod RowLaws
pub mod Failing
pub mod Permitted
pub mod Offered
pub mod ByMeter
pub mod Joined
pub mod PutBack
mod NewRows
mod Cancelling
mod Openings
mod Reopened
mod DoneIn
pub mod FailedIn
mod HasRow
mod HeadsStay
