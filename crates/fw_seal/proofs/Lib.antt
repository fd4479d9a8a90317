pub mod ContentFacts
pub mod FormFacts
pub mod FrameFacts
pub mod OpeningFacts
pub mod SealingFacts
