mod ApplySteps
pub mod Clashes
pub mod FixupLemmas
pub mod Folded
pub mod FragmentRows
pub mod Lawful
mod MakingApart
mod MakingOrder
mod MakingSteps
pub mod PartLists
pub mod PartNodes
pub mod PartSteps
pub mod PartValues
mod Shallows
mod ShiftedBytes
mod ShiftedSteps
mod Sizes
pub mod SymbolLeads
mod SymbolLengths
pub mod SymbolRows
mod SymbolSizes
mod SymbolSteps
pub mod SymbolTexts
pub mod SymbolsFound
mod UnionClashes
mod UnionFold
mod UnionMerged
mod UnionNames
mod UnionPaths
mod UnionShifted
mod UnionSymbols
mod UnionTrees
