pub mod CaseIsSound
pub mod ConseqIsSound
pub mod ConseqSteps
pub mod IfIsSound
pub mod ProcIsSound
pub mod RulesAreSound
pub mod SeqIsSound
pub mod SkipIsSound
pub mod WpIsSound
pub mod WpSteps
mod Others
