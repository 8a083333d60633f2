mod Blanking
