mod Turns
mod FieldTurns
