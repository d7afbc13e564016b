use Rattle.std.proofs.Common.{◌≡◌, ℕ, suc, ◌+◌, [], ◌∷◌, ◌++◌, length, drop, sym, ap, ◌∙◌, arith, rules}
use Rattle.std.proofs.lemmas.List.{length_push}
use Rattle.vault.specs.declared.statement.Row.{Row}
use Rattle.vault.specs.Statements.{joint, sums_to}
use Rattle.vault.proofs.Filling.{no_sums, sums_more, first_left}
use Rattle.vault.proofs.statement.rows.sum_rows.Goals as goal

pub loop-tally-init : goal.loop-tally-init
loop-tally-init c =
    let e = c.default-sum.ensures in
    record {
      sums = (λ j. record { given = e.0 j; declined = e.1.0 j; handed_back = e.1.1.0 j; «open» = e.1.1.1.0 j; units = e.1.1.1.1 j }) ∙ no_sums c.args.units.now c.args.tallies.now;
      few = record { given = omega (arith, e.0); declined = omega (arith, e.1.0); handed_back = omega (arith, e.1.1.0); opened = omega (arith, e.1.1.1.0); units = omega (arith, e.1.1.1.1) };
      tallies = search rules;
      units = search rules;
    }

pub loop-tally-preserved : goal.loop-tally-preserved
loop-tally-preserved c =
    let n = length c.loop-tally.yielded in
    let more : length (c.loop-tally.yielded ++ (c.in-Some.tally, c.in-Some.units) ∷ []) ≡ n + 1 = length_push c.loop-tally.yielded (c.in-Some.tally, c.in-Some.units) in
    let one : suc n ≡ length (c.loop-tally.yielded ++ (c.in-Some.tally, c.in-Some.units) ∷ []) = omega (arith, more) in
    let t = first_left c.args.tallies.now n c.in-Some.tally.now c.next.new.self.a.rest.now (sym c.in-Some.ensures.steps.0 ∙ c.loop-tally.invariant.tallies) in
    let u = first_left c.args.units.now n c.in-Some.units.now c.next.new.self.b.rest.now (sym c.in-Some.ensures.steps.1 ∙ c.loop-tally.invariant.units) in
    let few = c.row_of.ensures.few in
    record {
      sums = c.add-sum.ensures
          ∙ (λ j. joint (c.loop-tally.invariant.sums j) (c.row_of.ensures.value j))
          ∙ sums_more c.args.units.now c.args.tallies.now n c.in-Some.tally.now c.in-Some.units.now t.0 (t.1.0 _) (u.1.0 0)
          ∙ ap (λ (k : ℕ). sums_to k c.args.units.now c.args.tallies.now) (sym more);
      few = record {
        given = omega (arith, more, ap (λ (w : Row). w.given) c.add-sum.ensures, c.loop-tally.invariant.few.given, few.given);
        declined = omega (arith, more, ap (λ (w : Row). w.declined) c.add-sum.ensures, c.loop-tally.invariant.few.declined, few.declined);
        handed_back = omega (arith, more, ap (λ (w : Row). w.handed_back) c.add-sum.ensures, c.loop-tally.invariant.few.handed_back, few.handed_back);
        opened = omega (arith, more, ap (λ (w : Row). w.«open») c.add-sum.ensures, c.loop-tally.invariant.few.opened, few.opened);
        units = omega (arith, more, ap (λ (w : Row). w.units) c.add-sum.ensures, c.loop-tally.invariant.few.units, few.units);
      };
      tallies = t.1.1 ∙ ap (λ (k : ℕ). drop k c.args.tallies.now) one;
      units = u.1.1 ∙ ap (λ (k : ℕ). drop k c.args.units.now) one;
    }
