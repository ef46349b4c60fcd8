use Rattle.rv_asm.proofs.NumberedNames.{if_a, if_low_t, if_high_t, if_low_s, if_high_s, if_x}
use Rattle.rv_asm.proofs.registers.numbered.Goals as goal

pub returns-in-97 : goal.returns-in-97
returns-in-97 c = if_a c.args.letter c.args.number c.in-97.is c.if-number-lt8.true

pub returns-in-116 : goal.returns-in-116
returns-in-116 c = if_low_t c.args.letter c.args.number c.in-116.is c.if-number-lt3.true

pub returns-in-116-2 : goal.returns-in-116-2
returns-in-116-2 c = if_high_t c.args.letter c.args.number c.in-116.is c.if-number-lt3.false c.if-number-lt7.true

pub returns-in-115 : goal.returns-in-115
returns-in-115 c = if_low_s c.args.letter c.args.number c.in-115.is c.if-number-lt2.true

pub returns-in-115-2 : goal.returns-in-115-2
returns-in-115-2 c = if_high_s c.args.letter c.args.number c.in-115.is c.if-number-lt2.false c.if-number-lt12.true

pub returns-in-120 : goal.returns-in-120
returns-in-120 c = if_x c.args.letter c.args.number c.in-120.is c.if-number-lt32.true
