pub mod Logic
pub mod MembershipLaws
pub mod AmongLaws
