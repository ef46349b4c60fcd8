use Rattle.std.proofs.Common.{◌≤◌, length}
use Rattle.text_parts.proofs.Parting.{IsParted}
use Rattle.text_parts.proofs.lines.split_lines.Given as goal

abbrev pub invariant-loop : goal.invariant-loop
invariant-loop l = record {
  parted : IsParted l.text l.counter l.rest;
  shorter : length l.rest ≤ length l.text;
}
