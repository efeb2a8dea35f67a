pub mod StageCases
