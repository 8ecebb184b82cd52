mod AlarmRows
mod LegRows
mod OutcomeRows
mod Pushing
mod RowFields
mod RuleRows
mod StretchRows
mod VesselRows
