-- Cells and serial lists of strict runs.
pub mod CellFacts
pub mod CellsFed
pub mod CellsGround
pub mod CellsGrow
pub mod CellsStand
pub mod CellsStep
pub mod FlowCells
pub mod FlowSerial
pub mod SerialFronts
pub mod SerialGrows
pub mod SerialLists
pub mod SerialOnce
pub mod SlotCells
pub mod SwitchCells
pub mod SwitchItems
pub mod WorldCells
pub mod WorldSerial
