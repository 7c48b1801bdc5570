pub mod TurnLaws
pub mod ScriptLaws
