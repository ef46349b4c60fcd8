mod BlockLaws
