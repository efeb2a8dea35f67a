-- A decision on counts k times as large.
use Rattle.std.specs.Prelude.{ℕ, ◌*◌, pos, ◌*ℤ◌}
use Rattle.decision.specs.declared.Character.{Character}

-- a character decided by counts k times as large: the same code and words, lead and correlations k times as large
abbrev pub times_character : ℕ → Character → Character
times_character k c = record {
  code = c.code;
  lead = k * c.lead;
  word = c.word;
  correlation = pos k *ℤ c.correlation;
  next = c.next;
  next_correlation = pos k *ℤ c.next_correlation;
}
