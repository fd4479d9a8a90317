mod Cases
mod WireFacts
mod WindowFacts
mod LinkFacts
mod SealerFacts
mod Histories
