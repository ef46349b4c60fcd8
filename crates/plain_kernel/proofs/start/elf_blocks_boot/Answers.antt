use Rattle.plain_kernel.proofs.ElfBooting.{elf_block_boots}
use Rattle.plain_kernel.proofs.start.elf_blocks_boot.Goals as goal

pub returns : goal.returns
returns c = elf_block_boots
