pub mod RuleMasks
