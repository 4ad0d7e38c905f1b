pub mod Scans
pub mod RunInvariant
pub mod ExampleParts
pub mod RunExamples
pub mod WireExamples
pub mod SelfWireExamples
pub mod CountedTimeExamples
