pub mod Drafts
pub mod Names
pub mod RuleLists
