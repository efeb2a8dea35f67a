-- The invariant: the measurement reaches the edge of `tone`, and not the one `count` tones further on.
use mathlib.Core.Path.{◌≡◌, sym, ap, ◌∙◌, subst}
use mathlib.Core.Bool.{Bool, true, false}
use Prim.Native.Nat.{ℕ, suc, ◌+◌, ◌-◌, ◌*◌, ◌/◌, ◌^◌, ◌<◌, ◌≤◌}
use native.Mathlib.Nat.{pow-suc}
use native.Mathlib.Omega.{arith}
use lib.Ieee.{Float, le}
use lib.Pow.{pow_mono}
use Rattle.refusal.proofs.Limits.{mode_range, mode_tones}
use Rattle.band.specs.Internal.{tone_edge_in, Between, OwnerIn}
use Rattle.band.specs.declared.Band.{Band}
use Rattle.band.proofs.Band.owner.Invariants.{Among}
use Rattle.band.proofs.Band.owner.Goals as goal
use Rattle.band.proofs.Band.owner.Goals.{then-hertz-tone_edge, else-hertz-tone_edge}

among_all : (band : Band) (x : Float) (b count : ℕ) → count ≡ 2 ^ b → Between band x 0 (2 ^ b) → Among band x b 0 count
among_all band x b count e h =
    let all : 0 + count ≡ 2 ^ b = omega arith in
    record { few = omega arith; edges = rw all h }

module _ (band : Band) (x : Float) (b tone half : ℕ) (edge : Float) (is : edge ≡ tone_edge_in band (tone + half))
    (a : Among band x b tone (half * 2)) where
  tested : (t : Bool) → le edge x ≡ t → le (tone_edge_in band (tone + half)) x ≡ t
  tested t h = ap (λ (y : Float). le y x) (sym is) ∙ h

  upper_half : (n : ℕ) → n ≡ tone + half → le edge x ≡ true → Among band x b n half
  upper_half n e h =
      let last : tone + half * 2 ≡ n + half = omega arith in
      record { few = omega (arith, a.few); edges = record { reached = rw e (tested true h); short = rw last at a.edges.short } }

  lower_half : (n : ℕ) → n ≡ tone → le edge x ≡ false → Among band x b n half
  lower_half n e h = record { few = omega (arith, a.few); edges = record { reached = rw e a.edges.reached; short = rw e (tested false h) } }

doubled : (b i : ℕ) → i < b → 2 ^ (b - i) ≡ 2 ^ (b - (i + 1)) * 2
doubled b i l =
    let one : b - i ≡ suc (b - (i + 1)) = omega arith in
    ap (λ (k : ℕ). 2 ^ k) one ∙ pow-suc 2 (b - (i + 1))

among_one : (band : Band) (x : Float) (b tone count i : ℕ) → b ≤ i → count ≡ 2 ^ (b - i) → Among band x b tone count → OwnerIn band (2 ^ b) x tone
among_one band x b tone count i l e a =
    let none : b - i ≡ 0 = omega arith in
    let one : count ≡ 1 = e ∙ ap (λ (k : ℕ). 2 ^ k) none in
    let next : tone + count ≡ suc tone = omega arith in
    record { few = omega (arith, a.few); holds = rw next at a.edges }

pub loop-init : goal.loop-init
loop-init c =
    let s = c.before in
    let tones : c.tone_count-count.result ≡ 2 ^ s.args.mode = c.tone_count-count.ensures ∙ mode_tones s.args.mode s.requires.mode_value in
    let none : s.args.mode - 0 ≡ s.args.mode = omega arith in
    (rw none tones, among_all s.args.self s.args.hertz s.args.mode c.tone_count-count.result tones s.requires.between)

pub overflow_add-next : goal.overflow_add-next
overflow_add-next c =
    let s = c.before.before.before in
    let few : 2 ^ s.args.mode ≤ 2 ^ 8 = pow_mono (mode_range s.args.mode s.requires.mode_value).1 in
    record { fits = omega (arith, c.loop.invariant.1.few) }

pub overflow_step : goal.overflow_step
overflow_step c = record { fits = omega arith }

pub loop-preserved : goal.loop-preserved
loop-preserved c =
    let l = c.loop in
    let a = c.args in
    let edge = c.tone_edge in
    let half = l.count / 2 in
    let twice = doubled a.mode l.counter (omega arith) in
    let both : l.count ≡ half * 2 = omega (arith, l.invariant.0, twice) in
    let among = subst (λ (n : ℕ). Among a.self a.hertz a.mode l.tone n) both l.invariant.1 in (
      omega (arith, l.invariant.0, twice),
      elim c.if-hertz-tone_edge.branch [
        | then-hertz-tone_edge w ↦ upper_half a.self a.hertz a.mode l.tone half edge.result edge.ensures among
            c.if-hertz-tone_edge.tone w.tone-is w.if-hertz-tone_edge.true
        | else-hertz-tone_edge w ↦ lower_half a.self a.hertz a.mode l.tone half edge.result edge.ensures among
            c.if-hertz-tone_edge.tone w.tone-is w.if-hertz-tone_edge.false
      ],
    )

pub returns : goal.returns
returns c =
    let l = c.loop in
    let a = c.args in
    among_one a.self a.hertz a.mode l.tone l.count l.counter (omega arith) l.invariant.0 l.invariant.1
