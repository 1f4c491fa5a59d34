use Rattle.std.proofs.Common.{◌<◌, ◌≤◌, length, refl, arith, false-eqb, true-eqb}
use Rattle.code_scan.specs.Tokens.{found_in}
use Rattle.code_scan.specs.Scans.{found_of}
use Rattle.code_scan.specs.Views.{state_of}
use Rattle.code_scan.proofs.ScanSteps.{goes_on, ends}
use Rattle.code_scan.proofs.scanner.scan.Goals as goal

pub fronts-preserved : goal.fronts-preserved
fronts-preserved c =
    let some : 0 < length c.fronts.rest.now = omega (arith, false-eqb _ 0 c.fronts-test.ensures) in
    let low : 1 ≤ c.in_ok-front.front.len = c.in_ok-front.ensures.some (omega (arith, some)) in
    record {
      within = omega (arith, c.fronts.invariant.within, c.split_at.ensures.back_len);
      reads = rw (c.in_ok-push.ensures, c.in_ok-pass.ensures, c.split_at.ensures.front, c.split_at.ensures.back)
          (goes_on (length c.args.text.now) (state_of c.fronts.state) _ c.in_ok-front.front c.fronts.rest.now (found_of c.fronts.found) (found_in c.args.text.now) c.fronts.invariant.reads c.in_ok-front.ensures.gives refl some low);
    }

pub returns : goal.returns
returns c = record {
  exact = ends (length c.args.text.now) (state_of c.fronts.state) c.fronts.rest.now (found_of c.fronts.found) (found_in c.args.text.now) c.fronts.invariant.reads (true-eqb _ 0 c.fronts-test.ensures);
}
