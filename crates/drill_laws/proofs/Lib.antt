mod FewDifferent
mod Fleet
mod FleetLines
