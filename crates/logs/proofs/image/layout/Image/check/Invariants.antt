use Rattle.std.proofs.Common.{◌≡◌, ◌-◌}
use Rattle.logs.specs.Image.{former_time, lowest_bad}
use Rattle.logs.proofs.image.layout.Image.check.Given as goal

abbrev pub invariant-loop-i : goal.invariant-loop-i
invariant-loop-i l =
    let bs = l.self.bytes.now in
    let n = l.self.count in
    (l.former ≡ former_time bs l.i) × (lowest_bad bs n l.i (n - l.i) ≡ lowest_bad bs n 0 n)
