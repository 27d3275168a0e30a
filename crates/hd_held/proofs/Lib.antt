pub mod HeldBoxes
