pub mod LooseBoxes
