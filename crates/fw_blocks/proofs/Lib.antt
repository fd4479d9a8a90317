pub mod CutLemmas
pub mod MemberLemmas
pub mod RunLemmas
pub mod PutLemmas
pub mod WindowSearch
pub mod WindowLemmas
pub mod BitLemmas
pub mod PageLemmas
