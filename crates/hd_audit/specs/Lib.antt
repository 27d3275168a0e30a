pub mod RightVerdicts
pub mod Laws
pub mod SoFar
pub mod Known
pub mod Before
pub mod Inside
