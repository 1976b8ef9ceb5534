-- Marks: fed once, waiting in one place, processed once.
pub mod FedMarks
pub mod RingMarks
pub mod SwitchMarks
pub mod WorldMarks
pub mod MarksStand
pub mod HeldRings
