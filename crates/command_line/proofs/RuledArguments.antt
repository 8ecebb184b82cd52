-- What the rule of an argument says of the argument.
use Rattle.std.proofs.Common.{◌≡◌, ◌∙◌, ap, true, false, not, is_some}
use Rattle.clap.specs.Words.{Rule, rule_of}
use Rattle.clap.specs.Walk.{is_empty, is_simple_arg}
use Rattle.clap.specs.declared.builder.arg.Arg.{Arg}
use Rattle.clap.proofs.SimpleLemmas.{is_false}
use Rattle.clap.proofs.WalkLemmas.{both}

simple_local : (a : Arg) → is_simple_arg a ≡ true → a.global ≡ false
simple_local a e =
    let p = both (is_empty a.overrides.items) _ e in
    let q = both (is_empty a.default_vals_ifs.items) _ p.1 in
    let r = both (is_empty a.groups.items) _ q.1 in
    let s = both (not (is_some a.val_delim)) _ r.1 in
    let t = both (not (is_some a.terminator)) _ s.1 in
    let u = both (not a.allow_hyphen_values) _ t.1 in
    let v = both (not a.allow_negative_numbers) _ u.1 in
    let w = both (not a.require_equals) _ v.1 in
    let x = both (not a.last) _ w.1 in
    is_false _ x.1

-- a simple argument is not global
pub local : (a : Arg) (rule : Rule) → rule_of a ≡ rule → rule.is_simple ≡ true → a.global ≡ false
local a rule is simple = simple_local a (ap (λ (r : Rule). r.is_simple) is ∙ simple)
