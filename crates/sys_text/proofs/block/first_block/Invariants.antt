use Rattle.std.proofs.Common.{◌≡◌, ◌+◌, ◌≤◌, length}
use Rattle.std.specs.Option.{option_map}
use Rattle.text_parts.specs.Lines.{lines_of}
use Rattle.text_parts.proofs.Parting.{IsParted}
use Rattle.sys_text.specs.Reading.{lines_before_end}
use Rattle.sys_text.proofs.block.first_block.Given as goal

abbrev pub invariant-loop-rest : goal.invariant-loop-rest
invariant-loop-rest l = record {
  parted : IsParted l.text l.lines l.rest;
  same : option_map (λ n. n + l.lines) (lines_before_end (lines_of l.rest)) ≡ lines_before_end (lines_of l.text);
  few : l.lines + length l.rest ≤ length l.text;
}

abbrev pub decreases-loop-rest : goal.decreases-loop-rest
decreases-loop-rest l = length l.rest
