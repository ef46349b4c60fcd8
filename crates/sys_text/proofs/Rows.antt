-- The definitions at worked texts, and at texts that break a rule.
use Rattle.std.proofs.Common.{◌≡◌, ℕ, List, [], ◌∷◌, ◌++◌, Ok, Err, refl, codes}
use Rattle.std.specs.Fmt.{digits}
use Rattle.rv_asm.specs.Statement.{code_in}
use Rattle.sys_text.specs.declared.refusal.Rule.TheVariants.{ForeignByte, Misplaced, FieldCount, FieldKind, Limit, Same, Name, Room, Assembler, Ended}
use Rattle.rv_asm.specs.Program.{reading_of_lines}
use Rattle.sys_text.specs.Reading.{Answer, reading_of, system_of_lines}
use Rattle.sys_text.specs.Text.{system_text, system_lines, words_lines, word_text}

infixr 10 ◌/◌
-- a line and its end, and what follows
abbrev ◌/◌ : List ℕ → List ℕ → List ℕ
line / more = line ++ (10 ∷ more)

-- the four lines of a header before others, and the block of the program `hi` behind them
abbrev with_header : List ℕ → List ℕ
with_header more = codes "clusters 2" / codes "pager 0 1" / codes "syncreads 32" / codes "syncsteps 4096" / more

abbrev with_hi : List ℕ → List ℕ
with_hi more = with_header (codes "image hi 1" / codes "words 00200893 00000513 000105b7 02458593 00300613 00000073 00100893 00000513" / codes "words 00000073 000a6968" / codes "end" / more)

-- what is printed for a text that is read
abbrev printed : Answer → List ℕ
printed (Ok system) = system_text system
printed (Err refused) = []

row_1 : printed (reading_of (with_hi (codes "root 0 1 quarter hi 1000 0 0" / []))) ≡ (with_hi (codes "root 0 1 quarter hi 1000 0 0" / []))
unfolding system_of_lines reading_of_lines code_in system_lines words_lines word_text digits
row_1 = refl

same_clusters : reading_of (with_hi (codes "root 0 0 quarter hi 1000 0 0" / [])) ≡ Err (9, Same)
unfolding system_of_lines reading_of_lines code_in
same_clusters = refl

cut_after_6 : reading_of (with_header (codes "image hi 1" / codes "words 00200893 00000513 000105b7 02458593 00300613 00000073 00100893 00000513" / [])) ≡ Err (6, Ended)
unfolding system_of_lines reading_of_lines code_in
cut_after_6 = refl

nothing_at_all : reading_of [] ≡ Err (1, Ended)
unfolding system_of_lines reading_of_lines code_in
nothing_at_all = refl

assembled : printed (reading_of (with_header (codes "asm hi 1" / codes "li a7, 2" / codes "li a0, 0" / codes "# the message" / codes "la a1, m" / codes "li a2, 3" / codes "ecall" / codes "li a7, 1" / [] / codes "li a0, 0" / codes "ecall" / (codes "m: .ascii " ++ (34 ∷ []) ++ codes "hi" ++ (92 ∷ []) ++ codes "n" ++ (34 ∷ [])) / codes "  end " / codes "root 0 1 quarter hi 1000 0 0" / []))) ≡ (with_hi (codes "root 0 1 quarter hi 1000 0 0" / []))
unfolding system_of_lines reading_of_lines code_in system_lines words_lines word_text digits
assembled = refl

spaces_and_zeros : printed (reading_of (codes "  clusters   0002  " / codes "# skipped" / [] / codes "pager 0 01" / codes "syncreads 32" / codes "syncsteps 4096" / codes "image hi 1" / codes "words 00200893 00000513 000105B7" / codes "words 02458593 00300613 00000073 00100893 00000513 00000073" / codes "  #x" / codes "words 000A6968" / codes "end" / codes "root 0 1 quarter hi 1000 0 00")) ≡ (with_hi (codes "root 0 1 quarter hi 1000 0 0" / []))
unfolding system_of_lines reading_of_lines code_in system_lines words_lines word_text digits
spaces_and_zeros = refl

foreign_in_skipped : reading_of ((codes "# " ++ (9 ∷ [])) / codes "clusters 2" / codes "pager 0 1" / codes "syncreads 32" / codes "syncsteps 4096" / []) ≡ Err (1, ForeignByte)
unfolding system_of_lines reading_of_lines code_in
foreign_in_skipped = refl

twice_clusters : reading_of (codes "clusters 2" / codes "clusters 2" / codes "pager 0 1" / codes "syncreads 32" / codes "syncsteps 4096" / []) ≡ Err (2, Misplaced)
unfolding system_of_lines reading_of_lines code_in
twice_clusters = refl

no_such_field : reading_of (codes "cluster 2" / []) ≡ Err (1, Misplaced)
unfolding system_of_lines reading_of_lines code_in
no_such_field = refl

schedule : reading_of (with_hi (codes "root 0 1 quarter hi 1000 0 0" / codes "schedule 1" / [])) ≡ Err (10, Misplaced)
unfolding system_of_lines reading_of_lines code_in
schedule = refl

count : reading_of (codes "clusters 2 2" / []) ≡ Err (1, FieldCount)
unfolding system_of_lines reading_of_lines code_in
count = refl

kind : reading_of (codes "clusters two" / []) ≡ Err (1, FieldKind)
unfolding system_of_lines reading_of_lines code_in
kind = refl

eleven_digits : reading_of (codes "clusters 00000000002" / []) ≡ Err (1, FieldKind)
unfolding system_of_lines reading_of_lines code_in
eleven_digits = refl

limit : reading_of (codes "clusters 17" / []) ≡ Err (1, Limit)
unfolding system_of_lines reading_of_lines code_in
limit = refl

cluster_limit : reading_of (codes "clusters 2" / codes "pager 0 2" / []) ≡ Err (2, Limit)
unfolding system_of_lines reading_of_lines code_in
cluster_limit = refl

same_and_limit : reading_of (codes "clusters 2" / codes "pager 2 2" / []) ≡ Err (2, Limit)
unfolding system_of_lines reading_of_lines code_in
same_and_limit = refl

same_pager : reading_of (codes "clusters 2" / codes "pager 1 1" / []) ≡ Err (2, Same)
unfolding system_of_lines reading_of_lines code_in
same_pager = refl

twice_an_image : reading_of (with_hi (codes "image hi 2" / [])) ≡ Err (9, Name)
unfolding system_of_lines reading_of_lines code_in
twice_an_image = refl

no_image : reading_of (with_header (codes "root 0 1 quarter hi 1000 0 0" / [])) ≡ Err (5, Name)
unfolding system_of_lines reading_of_lines code_in
no_image = refl

words_alone : reading_of (with_header (codes "image a 1" / codes "words" / [])) ≡ Err (6, FieldCount)
unfolding system_of_lines reading_of_lines code_in
words_alone = refl

no_word : reading_of (with_header (codes "image a 1" / codes "words 0020089" / [])) ≡ Err (6, FieldKind)
unfolding system_of_lines reading_of_lines code_in
no_word = refl

end_with_more : reading_of (with_header (codes "image a 1" / codes "end a" / [])) ≡ Err (6, FieldCount)
unfolding system_of_lines reading_of_lines code_in
end_with_more = refl

root_in_block : reading_of (with_header (codes "image a 1" / codes "root 0 1 quarter hi 1000 0 0" / [])) ≡ Err (6, Misplaced)
unfolding system_of_lines reading_of_lines code_in
root_in_block = refl

after_a_refused_line : reading_of (with_header (codes "image a 1" / codes "words 1" / codes "nonsense" / [])) ≡ Err (6, FieldKind)
unfolding system_of_lines reading_of_lines code_in
after_a_refused_line = refl

ends_in_block : reading_of (with_header (codes "image a 1" / codes "words 00000073" / [])) ≡ Err (6, Ended)
unfolding system_of_lines reading_of_lines code_in
ends_in_block = refl

ends_in_asm : reading_of (with_header (codes "asm a 1" / codes "no such thing" / codes "# x" / [])) ≡ Err (7, Ended)
unfolding system_of_lines reading_of_lines code_in
ends_in_asm = refl

foreign_in_open_asm : reading_of (with_header (codes "asm a 1" / codes "addd" / (codes "ecall " ++ (9 ∷ [])) / codes "# x" / [])) ≡ Err (7, ForeignByte)
unfolding system_of_lines reading_of_lines code_in
foreign_in_open_asm = refl

refused_in_asm : reading_of (with_header (codes "asm a 1" / codes "ecall" / [] / codes "j x" / (codes "ecall " ++ (9 ∷ [])) / codes "end" / [])) ≡ Err (8, Assembler)
unfolding system_of_lines reading_of_lines code_in
refused_in_asm = refl

foreign_in_asm : reading_of (with_header (codes "asm a 1" / codes "ecall" / (codes "ecall " ++ (9 ∷ [])) / codes "j x" / codes "end" / [])) ≡ Err (7, ForeignByte)
unfolding system_of_lines reading_of_lines code_in
foreign_in_asm = refl

end_is_a_label : printed (reading_of (with_header (codes "asm a 1" / codes "end: ecall # end" / codes "j end" / codes "end" / codes "root 0 1 full a 1 0 15" / []))) ≡ (with_header (codes "image a 1" / codes "words 00000073 ffdff06f" / codes "end" / codes "root 0 1 full a 1 0 15" / []))
unfolding system_of_lines reading_of_lines code_in system_lines words_lines word_text digits
end_is_a_label = refl

end_x_is_a_statement : reading_of (with_header (codes "asm a 1" / codes "end x" / codes "end" / [])) ≡ Err (6, Assembler)
unfolding system_of_lines reading_of_lines code_in
end_x_is_a_statement = refl

after_the_block : reading_of (with_header (codes "asm a 1" / codes "ecall" / codes "end" / codes "ecall" / [])) ≡ Err (8, Misplaced)
unfolding system_of_lines reading_of_lines code_in
after_the_block = refl

room_of_asm : reading_of (with_header (codes "asm a 1" / (codes ".ascii " ++ (34 ∷ []) ++ codes "aaaaaaaaaaaaaaaaaaaaaaaaaaaaaaaaaaaaaaaaaaaaaaaaaaaaaaaaaaaa" ++ (34 ∷ [])) / (codes ".ascii " ++ (34 ∷ []) ++ codes "aaaaaaaaaaaaaaaaaaaaaaaaaaaaaaaaaaaaaaaaaaaaaaaaaaaaaaaaaaaa" ++ (34 ∷ [])) / (codes ".ascii " ++ (34 ∷ []) ++ codes "aaaaaaaaaaaaaaaaaaaaaaaaaaaaaaaaaaaaaaaaaaaaaaaaaaaaaaaaaaaa" ++ (34 ∷ [])) / (codes ".ascii " ++ (34 ∷ []) ++ codes "aaaaaaaaaaaaaaaaaaaaaaaaaaaaaaaaaaaaaaaaaaaaaaaaaaaaaaaaaaaa" ++ (34 ∷ [])) / (codes ".ascii " ++ (34 ∷ []) ++ codes "aaaaaaaaaaaaaaaaaaaaaaaaaaaaaaaaaaaaaaaaaaaaaaaaaaaaaaaaaaaa" ++ (34 ∷ [])) / codes "end" / [])) ≡ Err (11, Room)
unfolding system_of_lines reading_of_lines code_in
room_of_asm = refl

room_of_words : reading_of (with_header (codes "image a 1" / codes "words 00000000 00000000 00000000 00000000 00000000 00000000 00000000 00000000 00000000 00000000 00000000 00000000 00000000 00000000 00000000 00000000 00000000 00000000 00000000 00000000 00000000 00000000 00000000 00000000 00000000 00000000 00000000 00000000 00000000 00000000 00000000 00000000 00000000" / codes "words 00000000 00000000 00000000 00000000 00000000 00000000 00000000 00000000 00000000 00000000 00000000 00000000 00000000 00000000 00000000 00000000 00000000 00000000 00000000 00000000 00000000 00000000 00000000 00000000 00000000 00000000 00000000 00000000 00000000 00000000 00000000 00000000 00000000" / [])) ≡ Err (7, Room)
unfolding system_of_lines reading_of_lines code_in
room_of_words = refl

births : reading_of (with_hi (codes "root 0 1 half hi 1 31 0" / codes "root 0 1 half hi 1 0 0" / [])) ≡ Err (10, Room)
unfolding system_of_lines reading_of_lines code_in
births = refl

chan_same : reading_of (with_hi (codes "root 0 1 quarter hi 1000 0 0" / codes "chan 1 1" / [])) ≡ Err (10, Same)
unfolding system_of_lines reading_of_lines code_in
chan_same = refl

chan_not_there : reading_of (with_hi (codes "root 0 1 quarter hi 1000 0 0" / codes "chan 1 2" / [])) ≡ Err (10, Name)
unfolding system_of_lines reading_of_lines code_in
chan_not_there = refl

chan_none : reading_of (with_hi (codes "root 0 1 quarter hi 1000 0 0" / codes "chan 0 1" / [])) ≡ Err (10, Name)
unfolding system_of_lines reading_of_lines code_in
chan_none = refl

chan : printed (reading_of (with_hi (codes "root 0 1 quarter hi 1000 0 0" / codes "root 0 1 quarter hi 1000 0 0" / codes "chan 1 2" / codes "chan 2 1" / []))) ≡ (with_hi (codes "root 0 1 quarter hi 1000 0 0" / codes "root 0 1 quarter hi 1000 0 0" / codes "chan 1 2" / codes "chan 2 1" / []))
unfolding system_of_lines reading_of_lines code_in system_lines words_lines word_text digits
chan = refl

root_after_chan : reading_of (with_hi (codes "root 0 1 quarter hi 1000 0 0" / codes "root 0 1 quarter hi 1000 0 0" / codes "chan 1 2" / codes "root 0 1 quarter hi 1000 0 0" / [])) ≡ Err (12, Misplaced)
unfolding system_of_lines reading_of_lines code_in
root_after_chan = refl

ends : reading_of (with_hi (codes "root 0 1 quarter hi 1000 0 0" / codes "root 0 1 quarter hi 1000 0 0" / codes "chan 1 2" / codes "chan 1 2" / codes "chan 1 2" / codes "chan 1 2" / codes "chan 1 2" / codes "chan 1 2" / codes "chan 1 2" / codes "chan 1 2" / codes "chan 1 2" / codes "chan 1 2" / codes "chan 1 2" / codes "chan 1 2" / codes "chan 1 2" / codes "chan 1 2" / codes "chan 1 2" / codes "chan 1 2" / codes "chan 1 2" / codes "chan 1 2" / codes "chan 1 2" / codes "chan 1 2" / codes "chan 1 2" / codes "chan 1 2" / codes "chan 1 2" / codes "chan 1 2" / codes "chan 1 2" / codes "chan 1 2" / codes "chan 1 2" / codes "chan 1 2" / codes "chan 1 2" / codes "chan 1 2" / codes "chan 1 2" / codes "chan 1 2" / [])) ≡ Err (42, Room)
unfolding system_of_lines reading_of_lines code_in
ends = refl

name_of_17 : reading_of (with_header (codes "image abcdefghijklmnopq 1" / [])) ≡ Err (5, FieldKind)
unfolding system_of_lines reading_of_lines code_in
name_of_17 = refl

capital_name : reading_of (with_header (codes "image A 1" / [])) ≡ Err (5, FieldKind)
unfolding system_of_lines reading_of_lines code_in
capital_name = refl

mode : reading_of (with_hi (codes "root 0 1 Quarter hi 1000 0 0" / [])) ≡ Err (9, FieldKind)
unfolding system_of_lines reading_of_lines code_in
mode = refl

-- each field is tested for a lower rule before any is for a higher one
kind_before_limit : reading_of (codes "clusters 2" / codes "pager 2 x" / []) ≡ Err (2, FieldKind)
unfolding system_of_lines reading_of_lines code_in
kind_before_limit = refl

kinds_of_a_root : reading_of (with_hi (codes "root 9 9 quick no 1000 0 0" / [])) ≡ Err (9, FieldKind)
unfolding system_of_lines reading_of_lines code_in
kinds_of_a_root = refl

limit_before_name : reading_of (with_hi (codes "root 0 1 quarter no 1000 0 16" / [])) ≡ Err (9, Limit)
unfolding system_of_lines reading_of_lines code_in
limit_before_name = refl

-- the number of a root has no limit of its own
same_before_name : reading_of (with_hi (codes "root 0 1 quarter hi 1000 0 0" / codes "chan 9 9" / [])) ≡ Err (10, Same)
unfolding system_of_lines reading_of_lines code_in
same_before_name = refl

far_root : reading_of (with_hi (codes "root 0 1 quarter hi 1000 0 0" / codes "chan 1 9999999999" / [])) ≡ Err (10, Name)
unfolding system_of_lines reading_of_lines code_in
far_root = refl

-- a comment with a foreign byte, in blocks too
foreign_comment_in_image : reading_of (with_header (codes "image a 1" / (codes "# " ++ (127 ∷ [])) / codes "end" / [])) ≡ Err (6, ForeignByte)
unfolding system_of_lines reading_of_lines code_in
foreign_comment_in_image = refl

foreign_comment_in_asm : reading_of (with_header (codes "asm a 1" / codes "ecall" / (codes "# " ++ (127 ∷ [])) / codes "end" / [])) ≡ Err (7, ForeignByte)
unfolding system_of_lines reading_of_lines code_in
foreign_comment_in_asm = refl

foreign_comment_in_open_asm : reading_of (with_header (codes "asm a 1" / (codes "# " ++ (127 ∷ [])) / codes "ecall" / [])) ≡ Err (6, ForeignByte)
unfolding system_of_lines reading_of_lines code_in
foreign_comment_in_open_asm = refl

skipped_lines_alone : reading_of (codes "# a" / [] / codes "  # b") ≡ Err (3, Ended)
unfolding system_of_lines reading_of_lines code_in
skipped_lines_alone = refl

-- a foreign byte is the lowest rule, whatever else the line breaks
foreign_before_misplaced : reading_of ((codes "clusterz " ++ (9 ∷ [])) / []) ≡ Err (1, ForeignByte)
unfolding system_of_lines reading_of_lines code_in
foreign_before_misplaced = refl

misplaced_before_count : reading_of (codes "pager 0" / []) ≡ Err (1, Misplaced)
unfolding system_of_lines reading_of_lines code_in
misplaced_before_count = refl

births_of_32 : reading_of (with_hi (codes "root 0 1 half hi 1 32 0" / [])) ≡ Err (9, Limit)
unfolding system_of_lines reading_of_lines code_in
births_of_32 = refl
