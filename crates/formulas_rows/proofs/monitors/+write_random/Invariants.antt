use Rattle.formulas_rows.proofs.monitors.+write_random.Given as goal

abbrev pub decreases-write_random : goal.decreases-write_random
decreases-write_random l = l.depth
